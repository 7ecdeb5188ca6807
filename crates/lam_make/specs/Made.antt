-- A large input from a number: the text of a program, and the document of a world in which many threads run it.
--
-- Each thread has a tag of its own and a number that is drawn from the seed. It sums the numbers up to its own in a
-- region that bears the tag, and says the sum in a region below it, by the tag's capability to declassify.
use Rattle.std.specs.Prelude.{◌≡◌, ℕ, zero, suc, ◌+◌, ◌*◌, ◌/◌, ◌%◌, ◌^◌, List, ◌++◌, codes, decimal, refl}
use Rattle.std.specs.List.{join_by, range_with_len}
use Rattle.std.specs.Fmt.{digits}

abbrev pub Text : Type 0
Text = List ℕ

-- the most threads of a made world
abbrev pub most_made_threads : ℕ
most_made_threads = 64

-- ---- the numbers that are drawn

-- the state that follows a state
unfoldable pub next : ℕ → ℕ
next x = (6364136223846793005 * x + 1442695040888963407) % 2 ^ 64

-- a seed is the first state
unfoldable pub state : ℕ → ℕ → ℕ
state seed zero = seed
state seed (suc k) = next (state seed k)

-- the number in a state, below 1000
unfoldable pub number_in : ℕ → ℕ
number_in x = (x / 2 ^ 33) % 1000

-- the number of a thread is the one in the state after its own
unfoldable pub number_of : ℕ → ℕ → ℕ
number_of seed k = number_in (state seed (k + 1))

-- ---- the program

unfoldable pub program_text : Text
program_text =
    codes "fn work(a: tag, n: int): int {\n"
    ++ codes "  region (label{a;}, caps{a-}) [n] {\n"
    ++ codes "    let s: int = 0;\n"
    ++ codes "    while (n > 0) {\n"
    ++ codes "      s = s + n;\n"
    ++ codes "      n = n - 1;\n"
    ++ codes "    }\n"
    ++ codes "    region (label{;}, caps{}) [s] {\n"
    ++ codes "      say(text(s));\n"
    ++ codes "    } catch (e) { }\n"
    ++ codes "  } catch (f) { }\n"
    ++ codes "  return 0;\n"
    ++ codes "}\n"

-- ---- the world

-- a text for each number below n, parted by commas
unfoldable pub listed : (ℕ → Text) → ℕ → Text
listed f n = join_by f (codes ",") (range_with_len 0 n)

-- the name of a tag, between its marks
abbrev pub tag_word : ℕ → Text
tag_word k = codes "\"t" ++ decimal k ++ codes "\""

-- what a thread gets: its tag and its number
abbrev pub args_text : ℕ → ℕ → Text
args_text k n = codes "[{\"tag\":" ++ tag_word k ++ codes "},{\"int\":" ++ decimal n ++ codes "}]"

-- it may add and drop its tag
abbrev pub caps_text : ℕ → Text
caps_text k = codes "{\"plus\":[" ++ tag_word k ++ codes "],\"minus\":[" ++ tag_word k ++ codes "]}"

abbrev pub thread_text : ℕ → ℕ → Text
thread_text k n = codes "{\"run\":\"work\",\"args\":" ++ args_text k n ++ codes ",\"caps\":" ++ caps_text k ++ codes "}"

-- the thread of a number: its tag is that of the number, and what it sums is drawn
abbrev pub nth_thread : ℕ → ℕ → Text
nth_thread seed k = thread_text k (number_of seed k)

-- the document of the world, without white space
abbrev pub world_text : ℕ → ℕ → Text
world_text seed threads =
    codes "{\"version\":1,\"tags\":[" ++ listed tag_word threads
    ++ codes "],\"tree\":[],\"pipes\":[],\"threads\":[" ++ listed (nth_thread seed) threads ++ codes "]}"

-- ---- worked examples

second_state : state 1 1 ≡ 7806831264735756412
unfolding state next
second_state = refl

first_number : number_of 1 0 ≡ 774
unfolding number_of number_in state next
first_number = refl

second_number : number_of 1 1 ≡ 153
unfolding number_of number_in state next
second_number = refl

one_thread : world_text 1 1 ≡ codes "{\"version\":1,\"tags\":[\"t0\"],\"tree\":[],\"pipes\":[],\"threads\":[{\"run\":\"work\",\"args\":[{\"tag\":\"t0\"},{\"int\":774}],\"caps\":{\"plus\":[\"t0\"],\"minus\":[\"t0\"]}}]}"
unfolding listed number_of number_in state next digits
one_thread = refl

two_tags : listed tag_word 2 ≡ codes "\"t0\",\"t1\""
unfolding listed digits
two_tags = refl
