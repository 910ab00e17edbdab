pub mod IfPosLaws
