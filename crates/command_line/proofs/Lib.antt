pub mod RuleLemmas
pub mod SettingLemmas
pub mod WalkLemmas
pub mod MatchLemmas
pub mod RequestLemmas
