-- The data of an access of c etypes at o, counted by pairs: data byte j of offset x is byte (x - o)·S + j of them, and each of the first c·S bytes is that of one pair.
-- Rests on the arithmetic of quotients alone.
use Rattle.laws.proofs.Prelude.{ℕ, ◌+◌, ◌-◌, ◌*◌, ◌/◌, ◌%◌, ◌≤◌, ◌<◌, ◌≡◌, refl, ap, ◌∙◌, arith, div-add-mod', mod-lt, run_below, runs_below}
use Rattle.view.specs.Types.{PaperView}
use Rattle.view.specs.Places.{byte_of, data_size}
use Rattle.view.specs.Owners.{Belongs}
use Rattle.move_read.specs.Moves.{file_byte}
use Rattle.move_read.proofs.Walking.{file_byte_run}

-- from a pair to its byte of the data
module _ (v : PaperView) (o c x j : ℕ) (from : o ≤ x) (upto : x < o + c) (l : j < data_size v) where
  pub pair_counted : (x - o) * data_size v + j < c * data_size v
  pair_counted = run_below c (data_size v) (x - o) j (omega arith) l

  pub pair_lies : file_byte v o ((x - o) * data_size v + j) ≡ byte_of v x j
  pair_lies = let e : o + (x - o) ≡ x = omega arith in file_byte_run v o (x - o) j l ∙ ap (λ (z : ℕ). byte_of v z j) e

-- from a byte of the data to its pair
module _ (v : PaperView) (o c i : ℕ) (some : 0 < data_size v) (l : i < c * data_size v) where
  pub pair_within : o + i / data_size v < o + c
  pair_within = omega (arith, runs_below c (data_size v) i some l)

  pub pair_back : (o + i / data_size v - o) * data_size v + i % data_size v ≡ i
  pair_back = let e : o + i / data_size v - o ≡ i / data_size v = omega arith in rw e (div-add-mod' i (data_size v))

  pub pair_belongs : o + c ≤ 4294967296 → Belongs v (file_byte v o i) (o + i / data_size v) (i % data_size v)
  unfolding file_byte
  pair_belongs last = record { offset = omega (arith, pair_within); index = mod-lt i some; lies = refl }
