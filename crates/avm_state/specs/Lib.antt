pub mod Keys
pub mod KeyLaws
pub mod Places
pub mod LedgerState
pub mod Calls
pub mod Steps
pub mod Forms
