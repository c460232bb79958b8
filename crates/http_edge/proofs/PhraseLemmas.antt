-- Phrases of statuses.
use Rattle.std.proofs.Common.{arith, ◌≡◌, ◌<◌, ◌≤◌, ◌⊎◌, ℕ, zero, suc, [], length, ap, refl, ◌∙◌, Bool, true, false, inl, inr, lit<}
use Rattle.std.specs.Prelude.{◌&&◌, ◌==◌, nat_le}
use Rattle.std.proofs.lemmas.Bool.{cases_lt, and_parts}
use Rattle.std.proofs.lemmas.Bool.Decides.{nat_tests}
use Rattle.std.proofs.lemmas.List.{nil_from_length}
use Rattle.http_edge.specs.Response.{phrase_of}

-- the phrase of each status below n has at most 64 bytes
abbrev all_short : ℕ → Bool
all_short zero = true
all_short (suc n) = nat_le (length (phrase_of n)) 64 && all_short n

short_at : (n status : ℕ) → all_short n ≡ true → status < n → nat_le (length (phrase_of status)) 64 ≡ true
short_at zero status all lt = absurd (omega arith)
short_at (suc n) status all lt =
    let parts = and_parts (nat_le (length (phrase_of n)) 64) (all_short n) all in
    elim (cases_lt status n) [ inl less ↦ short_at n status parts.1 less | inr high ↦ (let same : status ≡ n = omega arith in ap (λ s. nat_le (length (phrase_of s)) 64) same ∙ parts.0) ]

short_table : all_short 1000 ≡ true
short_table = refl

pub phrase_short : (status : ℕ) → status < 1000 → length (phrase_of status) ≤ 64
phrase_short status lt = let t = short_at 1000 status short_table lt in grind (arith, nat_tests)

-- no status below 100 has a phrase
abbrev all_empty : ℕ → Bool
all_empty zero = true
all_empty (suc n) = nat_le (length (phrase_of n)) 0 && all_empty n

empty_at : (n status : ℕ) → all_empty n ≡ true → status < n → nat_le (length (phrase_of status)) 0 ≡ true
empty_at zero status all lt = absurd (omega arith)
empty_at (suc n) status all lt =
    let parts = and_parts (nat_le (length (phrase_of n)) 0) (all_empty n) all in
    elim (cases_lt status n) [ inl less ↦ empty_at n status parts.1 less | inr high ↦ (let same : status ≡ n = omega arith in ap (λ s. nat_le (length (phrase_of s)) 0) same ∙ parts.0) ]

empty_table : all_empty 100 ≡ true
empty_table = refl

low_empty : (status : ℕ) → status < 100 → phrase_of status ≡ []
low_empty status lt =
    let t = empty_at 100 status empty_table lt in
    let e : length (phrase_of status) ≡ 0 = grind (arith, nat_tests) in nil_from_length _ e

-- no status from 1000 on has one
other : (status k : ℕ) → 1000 ≤ status → k < 1000 → (status == k) ≡ false
other status k high low = grind (arith, nat_tests)

high_empty : (status : ℕ) → 1000 ≤ status → phrase_of status ≡ []
high_empty status high =
    rw (other status 100 high (lit< tt), other status 101 high (lit< tt), other status 102 high (lit< tt), other status 103 high (lit< tt), other status 200 high (lit< tt), other status 201 high (lit< tt), other status 202 high (lit< tt), other status 203 high (lit< tt), other status 204 high (lit< tt), other status 205 high (lit< tt), other status 206 high (lit< tt), other status 207 high (lit< tt), other status 208 high (lit< tt), other status 226 high (lit< tt), other status 300 high (lit< tt), other status 301 high (lit< tt), other status 302 high (lit< tt), other status 303 high (lit< tt), other status 304 high (lit< tt), other status 305 high (lit< tt), other status 307 high (lit< tt), other status 308 high (lit< tt), other status 400 high (lit< tt), other status 401 high (lit< tt), other status 402 high (lit< tt), other status 403 high (lit< tt), other status 404 high (lit< tt), other status 405 high (lit< tt), other status 406 high (lit< tt), other status 407 high (lit< tt), other status 408 high (lit< tt), other status 409 high (lit< tt), other status 410 high (lit< tt), other status 411 high (lit< tt), other status 412 high (lit< tt), other status 413 high (lit< tt), other status 414 high (lit< tt), other status 415 high (lit< tt), other status 416 high (lit< tt), other status 417 high (lit< tt), other status 418 high (lit< tt), other status 421 high (lit< tt), other status 422 high (lit< tt), other status 423 high (lit< tt), other status 424 high (lit< tt), other status 425 high (lit< tt), other status 426 high (lit< tt), other status 428 high (lit< tt), other status 429 high (lit< tt), other status 431 high (lit< tt), other status 451 high (lit< tt), other status 500 high (lit< tt), other status 501 high (lit< tt), other status 502 high (lit< tt), other status 503 high (lit< tt), other status 504 high (lit< tt), other status 505 high (lit< tt), other status 506 high (lit< tt), other status 507 high (lit< tt), other status 508 high (lit< tt), other status 510 high (lit< tt), other status 511 high (lit< tt)) refl

-- what is no status code has no phrase
pub no_phrase : (status : ℕ) → ((100 ≤ status) × (status < 1000) → ⊥) → phrase_of status ≡ []
no_phrase status lacks = go (cases_lt status 100) (cases_lt status 1000)
  where
    go : (status < 100) ⊎ (100 ≤ status) → (status < 1000) ⊎ (1000 ≤ status) → phrase_of status ≡ []
    go (inl low) any = low_empty status low
    go (inr some) (inl less) = absurd (lacks (some, less))
    go (inr some) (inr high) = high_empty status high
