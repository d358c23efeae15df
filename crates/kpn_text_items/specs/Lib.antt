-- What the contracts of this crate cite: lines and their items, whole files, readers, laws.
pub mod ItemLine
pub mod ItemFile
pub mod Input
pub mod Laws
