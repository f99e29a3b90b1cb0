pub mod CalleeLaws
pub mod FittingLaws
pub mod Lasts
pub mod RangeLaws
pub mod HexLaws
pub mod CallingLaws
pub mod ApplyLaws
