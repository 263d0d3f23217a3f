-- what units see of a host like `env`
pub mod Seen
