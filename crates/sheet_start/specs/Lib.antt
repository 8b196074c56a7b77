pub mod StartLine
