pub mod NameLaws
pub mod OperandLaws
pub mod HexLaws
pub mod LoadLaws
