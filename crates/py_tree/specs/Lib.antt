pub mod PythonName
pub mod Tree
pub mod View
pub mod Parameters
