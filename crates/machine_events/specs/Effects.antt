pub mod EndMain
