-- `number` takes the eight bytes from 8·i on, each 0 past the end. Assumes nothing.
use Rattle.laws.proofs.Prelude.{ℕ, ◌<◌, ◌-◌, ◌≡◌, ◌∙◌, ap, length, take, drop, nth, get_or-take, rules}
use Rattle.tagged_fields.proofs.Bytes.{rest_is, number_of_bytes}
use Rattle.tagged_fields.proofs.Made.{made_at}
use Rattle.tagged_fields.proofs.number.Goals as goal
use Rattle.tagged_fields.proofs.number.Goals.{in-Some, in-None}

pub returns : goal.returns
returns c =
    let rest = take (length c.args.s.now - c.bytes_after.result) (drop c.bytes_after.result c.args.s.now) in
    let bytes = c.match-first_chunk.bytes in
    let e : (k : ℕ) → k < 8 → nth bytes k ≡ nth rest k = λ k l.
    elim c.match-first_chunk.branch [
      | in-Some w ↦ ap (λ b. nth b k) (w.bytes-is ∙ w.in-Some.ensures.cases.same) ∙ get_or-take 8 rest k 0 l
      | in-None w ↦ ap (λ b. nth b k) w.bytes-is ∙ made_at 8 (nth rest) w.from_fn-bytes.ensures.items (λ i y q f. search rules) k 0 l
    ]
    in
    c.from_le_bytes.ensures ∙ number_of_bytes _ _ _ (rest_is _ _ _ c.bytes_after.ensures) _ e
