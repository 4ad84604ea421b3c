-- The kinds of request in a file, by the byte that stands before each.
use Rattle.std.specs.Prelude.{ℕ, ◌+◌, ◌*◌, cond, List, length, Ok, Err, Result, ◌==◌, nat_lt}
use Rattle.files.specs.Numbers.{number_at}
use Rattle.office.specs.declared.kind.Kind.{Kind}
use Rattle.office.specs.declared.kind.Kind.TheVariants.{Question, Delay, Cancel, Extra, Still}
use Rattle.office.specs.declared.kind.UnknownKind.{UnknownKind}

-- the kind that a byte says
abbrev pub kind_of : ℕ → Result Kind UnknownKind
kind_of b =
    cond (b == 0) (Ok Question) (cond (b == 1) (Ok Delay) (cond (b == 2) (Ok Cancel)
    (cond (b == 3) (Ok Extra) (cond (b == 4) (Ok Still) (Err (record { byte = b }))))))

-- how many numbers a request has, by its kind; an itinerary says it by its count of legs, if that is there
abbrev pub size_of : Kind → List ℕ → ℕ
size_of Question bs = 4
size_of Delay bs = 3
size_of Cancel bs = 2
size_of Extra bs = 6
size_of Still bs = cond (nat_lt (length bs) 12) 3 (3 + 2 * number_at bs 8)
