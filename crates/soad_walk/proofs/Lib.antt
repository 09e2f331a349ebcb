-- The laws of the walk by a table's own routes.
pub mod Laws
