mod PlanLemmas
mod FollowLemmas
mod WalkLemmas
mod ReopenLemmas
mod ReplayLemmas
mod RebootLemmas
