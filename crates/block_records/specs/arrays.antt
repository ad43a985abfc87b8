pub mod Arrays
pub mod Place
