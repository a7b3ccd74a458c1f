pub mod Padding
pub mod Cutting
pub mod Running
pub mod PaddingLaws
pub mod CuttingLaws
pub mod RunningLaws
pub mod ZerosLaws
