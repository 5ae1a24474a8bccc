pub mod Cases
pub mod CasesMore
pub mod CasesControl
pub mod CasesValues
pub mod CasesUnset
pub mod CasesLimits
pub mod CasesLong
pub mod CasesRefused
