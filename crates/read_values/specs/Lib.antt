pub mod OperationWord
