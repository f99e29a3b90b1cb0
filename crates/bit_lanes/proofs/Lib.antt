pub mod LaneLaws
pub mod BitLaws
pub mod RowLaws
pub mod CountLaws
