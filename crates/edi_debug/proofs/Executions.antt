-- Logs of runs are those of executions.
use Rattle.edi_debug.specs.Laws.{LogsAreMeant, LogsBegin}
use Rattle.edi_debug.proofs.Files.{points_fit}
use Rattle.edi_debug.proofs.stops.Meant.{log_is_meant, log_begins}

pub logs_are_meant : LogsAreMeant
logs_are_meant tree unit points system bound choices order x new h =
    log_is_meant unit x.coded system bound choices points (points_fit tree unit x.sound x.resolved x.bytes points x.reads) x.ending x.end x.turns
    x.drawn order x.selected new h

pub logs_begin : LogsBegin
logs_begin tree unit points system bound choices order x used now after new h =
    log_begins unit x.coded system bound choices points (points_fit tree unit x.sound x.resolved x.bytes points x.reads) x.ending x.end x.turns
    x.drawn order x.selected used now after new h
