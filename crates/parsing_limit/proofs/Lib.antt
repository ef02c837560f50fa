-- Laws of programs that take so many octets and no more.
pub mod LimitLaws
