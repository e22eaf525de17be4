pub mod FlattenThenSet
