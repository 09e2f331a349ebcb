-- What happens to a send buffer in a run.
pub mod Buffer
