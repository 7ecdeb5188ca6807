-- A shelf and a sink in memory, as a caller sees them: what they hold, how many calls were made, which calls
-- are to fail, and how many did. What a gate picks by a table.
use Rattle.std.specs.Prelude.{◌≡◌, ℕ, ◌-◌, ◌%◌, get_or, nat_eq, string_bytes, String, Vec, ◌&&◌, ◌||◌, Bool, false, nat_le, if◌then◌else◌, List, [], ◌∷◌, ◌++◌, length, take, Some, None, Result, Ok, Err, min}
use Rattle.std.specs.Str.{bytes_eq}
use Rattle.std.specs.List.{list_any}
use Rattle.lam_io.specs.Outside.{Files, one_more}
use Rattle.std.specs.declared.alloc.Global.{Global}
use Rattle.lam_io.specs.declared.SinkFault.{SinkFault}
use Rattle.lam_io.specs.declared.SinkFault.TheVariants.{Failed}

-- whether the call made next fails: its number, counted from 1, is listed
abbrev pub is_listed : ℕ → List ℕ → Bool
is_listed calls failing = list_any (λ n. nat_eq n (one_more calls)) failing

-- a file as its name and its bytes
abbrev pub seen : String Global × Vec ℕ Global → List ℕ × List ℕ
seen file = (string_bytes file.0, file.1.items)

-- the bytes of a file, by its name
abbrev pub file_in : List (List ℕ × List ℕ) → Files
file_in [] name = None
file_in (file ∷ files) name = if bytes_eq file.0 name then Some file.1 else file_in files name

-- no two files have one name
abbrev pub NamesDiffer : List (List ℕ × List ℕ) → Type 0
NamesDiffer [] = Unit {0}
NamesDiffer (file ∷ files) = (list_any (λ other. bytes_eq other.0 file.0) files ≡ false) × NamesDiffer files

-- a shelf: its files, how many calls were made, the numbers of the calls that are to fail, how many failed, and how many
-- writes were refused for want of memory
pub record ShelfState : Type 0 where
  pub files : List (List ℕ × List ℕ)
  pub calls : ℕ
  pub failing : List ℕ
  pub faults : ℕ
  pub refusals : ℕ

-- the next call fails
abbrev pub shelf_fails : ShelfState → Bool
shelf_fails shelf = is_listed shelf.calls shelf.failing

-- the state after a call that left these files and this count of refusals
abbrev pub shelf_after : ShelfState → List (List ℕ × List ℕ) → ℕ → ShelfState
shelf_after shelf files refusals = record {
  files = files;
  calls = one_more shelf.calls;
  failing = shelf.failing;
  faults = if shelf_fails shelf then one_more shelf.faults else shelf.faults;
  refusals = refusals;
}

-- a sink: the bytes that it took, how many it can hold, how many it takes by one call at most, and its calls and faults as
-- those of a shelf
pub record SinkState : Type 0 where
  pub bytes : List ℕ
  pub room : ℕ
  pub most : ℕ
  pub calls : ℕ
  pub failing : List ℕ
  pub faults : ℕ

-- the next call fails: it is listed, or there is a piece and no room for it
abbrev pub sink_fails : SinkState → List ℕ → Bool
sink_fails sink piece = is_listed sink.calls sink.failing || (nat_le sink.room (length sink.bytes) && nat_le 1 (length piece))

-- how much of a piece fits: of `abcd` the front `abc`, where there is room for 3 and nothing is held; of `abc` the front
-- `a`, where a call takes one byte at most
abbrev pub fitting : SinkState → List ℕ → ℕ
fitting sink piece = min (min (sink.room - length sink.bytes) (length piece)) sink.most

-- a sink takes what fits; where nothing fits, only an empty piece is no fault
abbrev pub sink_answer : SinkState → List ℕ → Result ℕ SinkFault
sink_answer sink piece = if sink_fails sink piece then Err Failed else Ok (fitting sink piece)

abbrev pub sink_after : SinkState → List ℕ → SinkState
sink_after sink piece = record {
  bytes = if sink_fails sink piece then sink.bytes else sink.bytes ++ take (fitting sink piece) piece;
  room = sink.room;
  most = sink.most;
  calls = one_more sink.calls;
  failing = sink.failing;
  faults = if sink_fails sink piece then one_more sink.faults else sink.faults;
}

-- what a table picks at a turn: its entries one after another and again from the first, and 0 where it has none
abbrev pub picked : List ℕ → ℕ → ℕ
picked picks turn = get_or picks (turn % length picks) 0
