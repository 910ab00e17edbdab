pub mod RewindLaws
