pub mod Lengths
pub mod Tables
pub mod Forms
pub mod Coding
pub mod Lines
pub mod Placing
pub mod Judging
pub mod ReadBack
