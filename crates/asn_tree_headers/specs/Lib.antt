pub mod Environments
pub mod MakingHeaders
