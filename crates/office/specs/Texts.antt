-- How the office tells what it says: lines, each with a line feed behind it.
use Rattle.std.specs.Prelude.{ℕ, zero, suc, ◌+◌, ◌*◌, ◌/◌, min, List, [], ◌∷◌, ◌++◌, length, drop, Ok, Err, vec_items, Result, codes, slice_index}
use Rattle.std.specs.List.{flat_map}
use Rattle.plan.specs.Names.{name_text}
use Rattle.plan.specs.Refusals.{refusal_text}
use Rattle.plan.specs.declared.refusal.Refusal.{Refusal}
use Rattle.plan.specs.declared.name.LegName.{LegName}
use Rattle.marks.specs.declared.mark.Mark.{Mark}
use Rattle.marks.specs.Fronts.{marks_of}
use Rattle.marks.specs.Texts.{marks_text}
use Rattle.updates.specs.Still.{names_in, word_text}
use Rattle.serving.specs.declared.response.Response.{Response}
use Rattle.serving.specs.declared.response.Response.TheVariants.{Marks, Updated, Looked}

-- a line feed, which ends a line
abbrev pub feed : List ℕ
feed = 10 ∷ []

-- a name behind others
abbrev pub next_text : LegName → List ℕ
next_text n = codes " " ++ name_text n

-- `0.0 1.0`: the names, with a blank between them
abbrev pub names_text : List LegName → List ℕ
names_text [] = []
names_text (n ∷ ns) = name_text n ++ flat_map next_text ns

-- how many legs the itinerary has that these numbers begin with: no more than stand there
abbrev pub legs_in : List ℕ → ℕ
legs_in ns = min (slice_index ns 0) (length (drop 1 ns) / 2)

-- a line for each of so many itineraries, one behind the other: how many legs, and the run and the number of each
unfoldable pub itineraries_text : ℕ → List ℕ → List ℕ
itineraries_text zero ns = []
itineraries_text (suc k) ns =
    names_text (names_in (legs_in ns) (drop 1 ns)) ++ (feed ++ itineraries_text k (drop (1 + 2 * legs_in ns) ns))

-- an answer: the marks on a line, and a line for the itinerary of each
abbrev pub answer_text : List Mark → List ℕ → List ℕ
answer_text ms ns = marks_text ms ++ (feed ++ itineraries_text (length ms) ns)

-- a response: nothing for an update that is done; or the refusal
abbrev pub response_text : Result Response Refusal → List ℕ
response_text (Ok (Marks f v)) = answer_text (marks_of f) (vec_items v)
response_text (Ok Updated) = []
response_text (Ok (Looked w)) = word_text w ++ feed
response_text (Err e) = refusal_text e ++ feed
