-- The marks of a line, one by one.
use Rattle.std.proofs.Common.{◌≡◌, ℕ, zero, suc, ◌+◌, ◌<◌, true, List, [], ◌∷◌, ◌++◌, length, get_or, take, sym, refl, ap, ◌∙◌, append-nil, add-one, arith}
use Rattle.std.proofs.Output.{has_written_of_eq, has_written_append}
use Rattle.std.proofs.lemmas.List.{flat_map_more, take_more, length-take-le}
use Rattle.std.specs.Fmt.{IsPlainFormatter, HasWritten}
use Rattle.std.specs.List.{flat_map}
use Rattle.std.specs.declared.fmt.Formatter.{Formatter}
use Rattle.marks.specs.declared.mark.Mark.{Mark}
use Rattle.marks.specs.Texts.{mark_text, gap_text, next_text, marks_text}

-- the text of the first mark and so many behind it, and of one more
text_behind : (m : Mark) (ns : List Mark) (i : ℕ) (d : Mark) → i < length ns →
    marks_text (take (i + 1) (m ∷ ns)) ++ next_text (get_or ns i d) ≡ marks_text (take (i + 1 + 1) (m ∷ ns))
text_behind m ns i d h =
    ap (λ k. marks_text (take k (m ∷ ns)) ++ next_text (get_or ns i d)) (add-one i)
    ∙ flat_map_more next_text (mark_text m) (take i ns) (get_or ns i d)
    ∙ ap (λ (l : List Mark). mark_text m ++ flat_map next_text l) (sym (take_more ns i d h))
    ∙ ap (λ k. marks_text (take k (m ∷ ns))) (sym (add-one (i + 1)))

pub text_more : (ms : List Mark) (m : Mark) (ns : List Mark) (i : ℕ) (d : Mark) → ms ≡ m ∷ ns → i < length ns →
    marks_text (take (i + 1) ms) ++ next_text (get_or ns i d) ≡ marks_text (take (i + 1 + 1) ms)
text_more ms m ns i d e h =
    ap (λ (l : List Mark). marks_text (take (i + 1) l) ++ next_text (get_or ns i d)) e ∙ text_behind m ns i d h
    ∙ ap (λ (l : List Mark). marks_text (take (i + 1 + 1) l)) (sym e)

text_push : (ms : List Mark) (i : ℕ) (m : Mark) → length ms ≡ i →
    marks_text ms ++ (gap_text i ++ mark_text m) ≡ marks_text (ms ++ m ∷ [])
text_push [] zero m e = sym (append-nil (mark_text m))
text_push [] (suc i) m e = absurd (omega arith)
text_push (n ∷ ns) zero m e = absurd (omega arith)
text_push (n ∷ ns) (suc i) m e = flat_map_more next_text (mark_text n) ns m

-- the same from the first mark on, by what stands before each
pub text_by_gaps : (ms : List Mark) (i : ℕ) (d : Mark) (gap : List ℕ) → i < length ms → gap ≡ gap_text i →
    marks_text (take i ms) ++ (gap ++ mark_text (get_or ms i d)) ≡ marks_text (take (i + 1) ms)
text_by_gaps ms i d gap h is =
    ap (λ (g : List ℕ). marks_text (take i ms) ++ (g ++ mark_text (get_or ms i d))) is
    ∙ text_push (take i ms) i (get_or ms i d) (length-take-le i ms (omega arith))
    ∙ ap marks_text (sym (take_more ms i d h))

-- what was written, and what a call that went well then wrote, is the text
pub put_next : {W : Type 0} (took : W → List ℕ → W → Type 0) (e f g : Formatter W) {a b text : List ℕ} →
    a ++ b ≡ text → HasWritten took e a f → (IsPlainFormatter f → true ≡ true → HasWritten took f b g) → HasWritten took e text g
put_next took e f g {a} {b} {text} whole was next =
    has_written_of_eq took e (a ++ b) text g whole (has_written_append took e a f b g was (next was.plain refl))
