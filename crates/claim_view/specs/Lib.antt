pub mod SetThenGet
