pub mod NumberForm
pub mod JoinForm
pub mod FieldForm
pub mod LineForm
pub mod InForm
pub mod EveryLine
