-- Buffers, and steps along a segment's row of things.
use Rattle.std.specs.Prelude.{ℕ, ◌+◌, ◌-◌, Bool, cond, ◌&&◌, List, find, length, Some, None, Option, ◌==◌, nat_le, nat_lt}
use Rattle.std.specs.Option.{option_map}
use borrow.Rule.Slice.PartMut.{put_mid}
use Rattle.format.specs.declared.things.Head.{Head}
use Rattle.format.specs.declared.things.Head.TheVariants.{Nothing, Object, Forwarded, Padding}
use Rattle.format.specs.Meaning.{Meaning, seen}
use Rattle.format.specs.Answers.{pad_words}
use Rattle.format.specs.Laws.{part}
use Rattle.arena.specs.declared.buffers.Buffer.{Buffer}
use Rattle.arena.specs.declared.buffers.Step.{Step}
use Rattle.arena.specs.declared.buffers.Step.TheVariants.{Thing, Padding as PaddingTo, Buffer as BufferTo}

abbrev pub no_buffer : Buffer
no_buffer = record { init = 0; limit = 0 }

-- A buffer without words begins nowhere.
abbrev pub begins : Buffer → ℕ → Bool
begins b a = b.init == a && nat_lt a b.limit

-- where the buffer ends that begins at a
abbrev pub buffer_at : List Buffer → ℕ → Option ℕ
buffer_at bs a = option_map (λ (b : Buffer). b.limit) (find (λ b. begins b a) bs)

-- the step over a thing
abbrev pub step_over : Meaning → ℕ → Head → Option Step
step_over m a Nothing = None
step_over m a (Object s) = Some (Thing (a + m.size s))
step_over m a (Forwarded k to) = Some (Thing (a + k))
step_over m a (Padding k) = Some (PaddingTo (a + k))

-- A buffer is passed over; a thing ends before the row does, and what is none stops the walk.
abbrev pub step_by : Meaning → List ℕ → ℕ → ℕ → Option ℕ → Option Step
step_by m ws e a (Some limit) = Some (BufferTo limit)
step_by m ws e a None = step_over m a (seen m (part a (e - a) ws))

-- the step from a along a row that ends at e
abbrev pub step_at : Meaning → List Buffer → List ℕ → ℕ → ℕ → Option Step
step_at m bs ws e a = cond (nat_lt a e && nat_le e (length ws)) (step_by m ws e a (buffer_at bs a)) None

-- the words from a up to e become one padding, if they are 1 to 256 and lie in the arena
abbrev pub padded_part : Meaning → ℕ → ℕ → List ℕ → List ℕ
padded_part m a e ws = cond (nat_le a e && nat_le e (length ws)) (put_mid a (e - a) ws (pad_words m (part a (e - a) ws))) ws
