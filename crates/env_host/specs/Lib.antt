-- promised: what `env` offers, and what its functions may answer
pub mod EnvHost
