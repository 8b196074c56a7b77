pub mod Long
