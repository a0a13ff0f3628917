pub mod Decls
