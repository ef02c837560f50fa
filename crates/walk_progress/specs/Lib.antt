-- What code keeps of a walk.
pub mod code
