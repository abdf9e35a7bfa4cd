pub mod Files
pub mod FolderShelf
pub mod MemShelf
pub mod MemSink
pub mod Outside
pub mod Shelf
pub mod Sink
pub mod StdSink
