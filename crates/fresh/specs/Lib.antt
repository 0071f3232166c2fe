-- A fresh model.
pub mod Fresh
