use Rattle.std.proofs.Common.{◌≡◌, ℕ, ◌≤◌, List, ◌++◌, length, take, drop, inl, inr, sym, ap, ◌∙◌, arith}
use Rattle.std.proofs.lemmas.Bool.{cases_lt}
use Rattle.std.proofs.lemmas.Grind.{common_steps}
use Rattle.std.proofs.lemmas.List.{append-nil, drop_all, length-take, take-append-drop}
use Rattle.string_view.proofs.bytes.copy_bytes.Goals as goal

-- the n cells in front have as much of xs as fits, and those behind are the old ones
copied : (xs bs ys : List ℕ) (n : ℕ) → n ≤ length ys → take n ys ≡ take (length bs) xs → drop n ys ≡ drop n bs → ys ≡ take (length bs) xs ++ drop (length xs) bs
copied xs bs ys n h t d =
    let l = ap length t in
    let a = length-take n ys in
    let b = length-take (length bs) xs in
    let ends : drop n bs ≡ drop (length xs) bs = elim (cases_lt (length bs) (length xs)) [
      | inl k ↦ drop_all n bs (omega (arith, l, a, b)) ∙ sym (drop_all (length xs) bs (omega arith))
      | inr k ↦ ap (λ j. drop j bs) (omega (arith, l, a, b))
    ] in
    sym (take-append-drop n ys) ∙ ap (λ z. z ++ drop n ys) t ∙ ap (λ z. take (length bs) xs ++ z) (d ∙ ends)

pub returns : goal.returns
returns g c =
    let k = append-nil (take c.loop-place.place-iterator.count c.loop-place.buffer) in
    record { cells = copied (g.S.StringView.seq c.args.s.now) c.args.buffer.now c.loop-place.buffer c.loop-place.place-iterator.count (grind (arith, common_steps)) (grind (arith, common_steps)) c.loop-place.invariant.others }
