-- Each number is given exactly when its check is the first that fails.
pub mod When
