-- Bytes, words and decimal numbers put into lent bytes.
pub mod Text
