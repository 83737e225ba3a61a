pub mod Fields
pub mod WordPuts
pub mod IntoWords
