use Rattle.std.proofs.Common.{◌≡◌, map, arith}
use Rattle.byte_files.specs.Text.{words_of}
use Rattle.siman_scripts.proofs.Placed.{width-words}
use Rattle.siman_scripts.proofs.placed_word.placed_words.Goals as goal

pub loop-word-init : goal.loop-word-init
loop-word-init c =
    let ws : map (λ w. w.now) c.as_slice-word-items.result.now ≡ words_of c.args.line.now = rw c.as_slice-word-items.ensures.value c.in_ok-words.ensures in
    record {
      words = rw (c.new-placed.ensures.items, ws);
      within = rw ws (omega (arith, width-words c.args.line.now));
    }
