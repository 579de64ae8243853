mod SizeLaws
mod MadeLaws
mod EmitLaws
mod BlockLaws
pub mod RepresentLaws
