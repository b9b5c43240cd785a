pub mod Deciding
pub mod Asking
pub mod Going
pub mod Lines
pub mod Told
pub mod EndTexts
pub mod Whole
