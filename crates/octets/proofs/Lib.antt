-- Laws of the definitions in specs/.
pub mod ListLaws
pub mod TextLaws
pub mod LentLaws
pub mod DecimalLaws
pub mod Computing
pub mod PartLaws
pub mod RefusingLaws
pub mod FramingLaws
