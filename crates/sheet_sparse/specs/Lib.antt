pub mod SizedBlocks
