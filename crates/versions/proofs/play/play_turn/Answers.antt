use Rattle.std.proofs.Common.{[], ◌∷◌, sym}
use Rattle.versions.specs.Sequential.{event_of}
use Rattle.versions.proofs.Reading.{reads_on}
use Rattle.versions.proofs.play.play_turn.Goals as goal

pub returns : goal.returns
returns g c =
    let m = g.S.VersionStore in
    record {
      answer = c.take_turn.ensures.answer;
      after = c.take_turn.ensures.after;
      sequential = reads_on (m.plain c.args.store.now) (event_of c.args.turn c.take_turn.result ∷ []) (m.plain c.take_turn.new.self)
          (c.take_turn.ensures.answer, sym c.take_turn.ensures.after);
      shows = c.take_turn.ensures.shows;
      beside = c.take_turn.ensures.beside;
      kept = c.take_turn.ensures.kept;
    }
