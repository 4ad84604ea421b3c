-- Requests in a file: a byte that says the kind, and then numbers of four bytes each.
use Rattle.std.specs.Prelude.{◌≡◌, ℕ, ◌+◌, ◌*◌, ◌/◌, ◌<◌, ◌≤◌, min, List, [], ◌∷◌, ◌++◌, length, drop, Some, None, Ok, Err, vec_items, Option, slice_index}
use Rattle.files.specs.Numbers.{numbers_in}
use Rattle.plan.specs.Words.{leg_words}
use Rattle.updates.specs.declared.update.Update.TheVariants.{Delay, Cancel, Extra}
use Rattle.serving.specs.declared.request.Request.{Request}
use Rattle.serving.specs.declared.request.Request.TheVariants.{Ask, Apply, Look}
use Rattle.office.specs.declared.kind.Kind.{Kind}
use Rattle.office.specs.declared.kind.Kind.TheVariants.{Question, Delay as ADelay, Cancel as ACancel, Extra as AnExtra, Still}
use Rattle.office.specs.declared.reading.Fault.{Fault}
use Rattle.office.specs.declared.reading.Fault.TheVariants.{Unknown, CutShort}
use Rattle.office.specs.declared.reading.Requests.{Requests}
use Rattle.office.specs.Kinds.{kind_of, size_of}

-- those of its numbers that are there: fewer, where the file's end cuts it short
abbrev pub row : Kind → List ℕ → List ℕ
row kind bs = numbers_in (min (size_of kind bs) (length bs / 4)) bs

-- the kind of a request, and its numbers
abbrev pub request_kind : Request → Kind
request_kind (Ask v) = Question
request_kind (Apply (Delay n m)) = ADelay
request_kind (Apply (Cancel n)) = ACancel
request_kind (Apply (Extra l)) = AnExtra
request_kind (Look v) = Still

abbrev pub request_numbers : Request → List ℕ
request_numbers (Ask v) = vec_items v
request_numbers (Apply (Delay n m)) = n.run ∷ n.number ∷ m ∷ []
request_numbers (Apply (Cancel n)) = n.run ∷ n.number ∷ []
request_numbers (Apply (Extra l)) = leg_words l
request_numbers (Look v) = vec_items v

-- a request of this kind with these numbers
pub record Made (k : Kind) (ns : List ℕ) (r : Request) : Type 0 where
  pub kind : request_kind r ≡ k
  pub numbers : request_numbers r ≡ ns

-- an update has to have all its numbers: of these it has some only
abbrev pub Cut : Kind → List ℕ → Type 0
Cut Question ns = ⊥
Cut ADelay ns = length ns ≡ 3 → ⊥
Cut ACancel ns = length ns ≡ 2 → ⊥
Cut AnExtra ns = length ns ≡ 6 → ⊥
Cut Still ns = ⊥

-- a request stands at this place of a file
pub record Stands (bs : List ℕ) (at : ℕ) (kind : Kind) (r : Request) : Type 0 where
  pub within : at < length bs
  pub byte : kind_of (slice_index bs at) ≡ Ok kind
  pub made : Made kind (row kind (drop (at + 1) bs)) r

-- where the next one stands: behind its numbers, or at the file's end
abbrev pub behind : Kind → List ℕ → ℕ → ℕ
behind kind bs at = at + (1 + min (length (drop (at + 1) bs)) (4 * size_of kind (drop (at + 1) bs)))

-- these requests stand one behind the other, from a place of a file to another
pub data Written (bs : List ℕ) (start : ℕ) : List Request → ℕ → Type 0 where
  no_requests : Written bs start [] start
  and_request : {rs : List Request} {at : ℕ} {kind : Kind} {r : Request} → Written bs start rs at →
      Stands bs at kind r → Written bs start (rs ++ r ∷ []) (behind kind bs at)

-- no request can be read at this place: nothing has such a kind, or it is an update that is cut short
abbrev pub Faulty : List ℕ → ℕ → Fault → Type 0
Faulty bs at (Unknown place byte) = (place ≡ at) × (byte ≡ slice_index bs at) × (kind_of byte ≡ Err (record { byte = byte }))
Faulty bs at (CutShort place) = (place ≡ at) × ((kind : Kind) × (kind_of (slice_index bs at) ≡ Ok kind) ×
    Cut kind (row kind (drop (at + 1) bs)))

-- reading stops at the file's end, or at the first fault
abbrev pub Stops : List ℕ → ℕ → Option Fault → Type 0
Stops bs at None = length bs ≤ at
Stops bs at (Some f) = (at < length bs) × Faulty bs at f

-- the requests of a file from a place on
pub record Read (bs : List ℕ) (start : ℕ) (x : Requests) : Type 0 where
  pub place : ℕ
  pub written : Written bs start (vec_items x.all) place
  pub stops : Stops bs place x.fault
