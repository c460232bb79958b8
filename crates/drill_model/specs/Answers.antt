-- The answers that a connection took, told apart by their lengths (RFC 9112, sections 4 and 6.3), and their statuses.
use Rattle.std.specs.Prelude.{ℕ, ◌≡◌, ◌<◌, ◌^◌, ◌==◌, false, IsTrue, List, [], ◌∷◌, ◌++◌, length, filter, map}
use Rattle.std.specs.List.{range_with_len}
use Rattle.response_reader.specs.Heads.{IsFinal, is_bare}
use Rattle.session_model.specs.declared.terms.Terms.{Terms}
use Rattle.session_model.specs.Responses.{answer_bytes}

-- what a request asks of its answer that asks neither to close nor for the head alone
abbrev pub plain_terms : Terms
plain_terms = record { close = false; bare = false }

-- the bytes are an answer to such a request, of this status
pub record IsAnswer (bytes : List ℕ) (status : ℕ) : Type 0 where
  pub body : List ℕ
  pub final : IsFinal status
  pub bodiless : IsTrue (is_bare status) → body ≡ []
  pub small : length body < 2 ^ 64
  pub bytes_are : bytes ≡ answer_bytes plain_terms status body

-- the bytes begin with none
abbrev pub HasNoAnswer : List ℕ → Type 0
HasNoAnswer bytes = (one behind : List ℕ) (status : ℕ) → IsAnswer one status → bytes ≡ one ++ behind → ⊥

-- the statuses of the answers that the bytes begin with, as many as there are
pub data HaveStatuses : List ℕ → List ℕ → Type 0 where
  NoMore : (rest : List ℕ) → HasNoAnswer rest → HaveStatuses rest []
  OneMore : (one rest statuses : List ℕ) (status : ℕ) → IsAnswer one status → HaveStatuses rest statuses
      → HaveStatuses (one ++ rest) (status ∷ statuses)

-- how many of them are this one
abbrev pub count_of : ℕ → List ℕ → ℕ
count_of status statuses = length (filter (λ s. s == status) statuses)

-- how many are each status, rising: each has three digits (RFC 9110, section 15), the first at most 5
unfoldable pub counts_of : List ℕ → List ℕ
counts_of statuses = map (λ s. count_of s statuses) (range_with_len 0 600)
