pub mod RecordLaws
pub mod TextLaws
pub mod ReadBack
pub mod LineBack
pub mod ContractLaws
pub mod SumLaws
pub mod Examples
