pub mod Frame
pub mod FrameLayout
pub mod FrameStep
pub mod NumberStep
pub mod JumpStep
pub mod Does
pub mod Group
