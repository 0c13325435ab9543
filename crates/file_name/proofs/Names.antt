use Rattle.std.specs.Prelude.{◌≡◌, ◌↔◌, IsTrue, ℕ, Bool, ◌⊎◌, List, [], ◌++◌, take, drop, codes}
use Rattle.std.proofs.Common.{sym, ap, ◌∙◌, inl, inr}
use Rattle.std.proofs.lemmas.Slice.Eq.{bytes_eq-Decides}
use Rattle.std.proofs.lemmas.List.{take-append-drop}
use Rattle.std.proofs.lemmas.Bool.Decides.{Decides-at, Decides-or, Decides-like}
use Rattle.rules.proofs.Sets.{Outside, outside_decides}
use Rattle.file_name.specs.Names.{is_portable, is_invalid_name, InvalidName, strange, empty, dot, dot_dot, hyphen}

-- the tests that the code makes, by what each says
abbrev Tests : List ℕ → Type 0
Tests s = Outside is_portable s ⊎ (((s ≡ []) ⊎ (s ≡ codes ".")) ⊎ ((s ≡ codes "..") ⊎ (take 1 s ≡ codes "-")))

tested : (s : List ℕ) → Tests s → InvalidName s
tested s (inl o) = strange o.0 o.1 o.2
tested s (inr (inl (inl e))) = empty e
tested s (inr (inl (inr e))) = dot e
tested s (inr (inr (inl e))) = dot_dot e
tested s (inr (inr (inr e))) = hyphen (drop 1 s) (sym (take-append-drop 1 s) ∙ ap (λ z. z ++ drop 1 s) e)

to_test : (s : List ℕ) → InvalidName s → Tests s
to_test s (strange i h e) = inl (i, h, e)
to_test s (empty e) = inr (inl (inl e))
to_test s (dot e) = inr (inl (inr e))
to_test s (dot_dot e) = inr (inr (inl e))
to_test s (hyphen rest e) = inr (inr (inr (ap (take 1) e)))

decided : (s : List ℕ) → IsTrue (is_invalid_name s) ↔ InvalidName s
decided s =
    Decides-like _ (tested s) (to_test s)
    (Decides-or _ _ (outside_decides is_portable s)
    (Decides-or _ _ (Decides-or _ _ (bytes_eq-Decides s []) (bytes_eq-Decides s (codes ".")))
    (Decides-or _ _ (bytes_eq-Decides s (codes "..")) (bytes_eq-Decides (take 1 s) (codes "-")))))

-- an answer that is the test's decides it
pub invalid_decided : (s : List ℕ) (b : Bool) → b ≡ is_invalid_name s → IsTrue b ↔ InvalidName s
invalid_decided s b e = Decides-at _ _ e (decided s)
