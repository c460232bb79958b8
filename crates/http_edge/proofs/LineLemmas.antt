-- Pieces that are gathered one behind the other.
use Rattle.std.proofs.Common.{◌≡◌, ℕ, List, ◌++◌, ap, ◌∙◌, append_assoc}

-- one piece and then another
push_on : (l m n a b : List ℕ) → m ≡ l ++ a → n ≡ m ++ b → n ≡ l ++ (a ++ b)
push_on l m n a b e f = f ∙ ap (λ x. x ++ b) e ∙ append_assoc l a b

-- a piece by another name
pub push_as : (l n a b : List ℕ) → n ≡ l ++ a → a ≡ b → n ≡ l ++ b
push_as l n a b e f = e ∙ ap (λ x. l ++ x) f

pub pushed_2 : (l l1 l2 a b : List ℕ) → l1 ≡ l ++ a → l2 ≡ l1 ++ b → l2 ≡ l ++ (a ++ b)
pushed_2 = push_on

pub pushed_3 : (l l1 l2 l3 a b c : List ℕ) → l1 ≡ l ++ a → l2 ≡ l1 ++ b → l3 ≡ l2 ++ c → l3 ≡ l ++ (a ++ b ++ c)
pushed_3 l l1 l2 l3 a b c d e f = push_on l l2 l3 (a ++ b) c (push_on l l1 l2 a b d e) f

pub pushed_5 : (l l1 l2 l3 l4 l5 a b c d e : List ℕ) → l1 ≡ l ++ a → l2 ≡ l1 ++ b → l3 ≡ l2 ++ c → l4 ≡ l3 ++ d → l5 ≡ l4 ++ e
    → l5 ≡ l ++ (a ++ b ++ c ++ d ++ e)
pushed_5 l l1 l2 l3 l4 l5 a b c d e p q r s t =
    push_on l l4 l5 (a ++ b ++ c ++ d) e (push_on l l3 l4 (a ++ b ++ c) d (pushed_3 l l1 l2 l3 a b c p q r) s) t

pub pushed_6 : (l l1 l2 l3 l4 l5 l6 a b c d e f : List ℕ) → l1 ≡ l ++ a → l2 ≡ l1 ++ b → l3 ≡ l2 ++ c → l4 ≡ l3 ++ d → l5 ≡ l4 ++ e → l6 ≡ l5 ++ f
    → l6 ≡ l ++ (a ++ b ++ c ++ d ++ e ++ f)
pushed_6 l l1 l2 l3 l4 l5 l6 a b c d e f p q r s t u =
    push_on l l5 l6 (a ++ b ++ c ++ d ++ e) f (pushed_5 l l1 l2 l3 l4 l5 a b c d e p q r s t) u
