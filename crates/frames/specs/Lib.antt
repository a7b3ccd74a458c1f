pub mod Frames
pub mod FramesLaws
pub mod PutLaws
pub mod WriterLaws
