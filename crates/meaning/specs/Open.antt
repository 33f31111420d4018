-- Every definition, opened at once: a theorem that computes with them says `unfolding everything`.
use Rattle.tokens.specs.Written
use Rattle.tokens.specs.Bytes
use Rattle.tokens.specs.Tokens
use Rattle.meaning.specs.Lists
use Rattle.meaning.specs.Reader
use Rattle.meaning.specs.Names
use Rattle.meaning.specs.Labels
use Rattle.meaning.specs.Signals
use Rattle.meaning.specs.Groups
use Rattle.meaning.specs.Timing
use Rattle.meaning.specs.Body
use Rattle.meaning.specs.Data
use Rattle.meaning.specs.Statements
use Rattle.meaning.specs.Document
use Rattle.meaning.specs.Run
use Rattle.meaning.specs.Edges
use Rattle.meaning.specs.Meaning
use Rattle.meaning.specs.Services

unfoldable pub everything : Unit {0}
unfolding Written.bytes Written.lines Written.same Written.starts Written.cases Bytes.between Bytes.blank Bytes.allowed Bytes.digit Bytes.letter Bytes.wordy Tokens.run Tokens.outside Tokens.in_mode Tokens.act Tokens.ended Tokens.done Tokens.lex Tokens.toks Tokens.left Tokens.first Tokens.next_token Tokens.fault_in Tokens.fault_of Lists.has Lists.meets Lists.inside Lists.without Lists.repeats Lists.count Lists.empty Reader.after Reader.◌>>=◌ Reader.give Reader.refuse_if Reader.any Reader.ahead_of Reader.due_of Reader.one_of Reader.choose Reader.is_word Reader.word Reader.if_ahead Reader.option Reader.while_f Reader.while Reader.closed Reader.until Names.reserved Names.among Names.is_name Names.name Names.due_among Names.find Names.is_some Names.new_name Names.known Names.old_name Names.value Names.number Names.within Names.number_in Labels.beginning Labels.parting Labels.labelling Labels.behind Labels.labelled Labels.labels_from Labels.labels Labels.taken Labels.used_by Labels.repeated Labels.used_twice Labels.earlier Labels.each_once Signals.directions Signals.signal_up_to Signals.signals_up_to Groups.term Groups.sign Groups.sign_ahead Groups.joined Groups.more Groups.terms Groups.bracket Groups.expression Groups.group_up_to Groups.groups_up_to Timing.unit Timing.picoseconds Timing.quoted Timing.counted Timing.uncounted Timing.time_of Timing.signed_quoted Timing.drives Timing.compares Timing.event_letter Timing.letter_due Timing.alternative Timing.letters Timing.spread Timing.alike Timing.rises Timing.add_events Timing.one_event Timing.event Timing.wave_char Timing.all_chars Timing.taken Timing.blanks Timing.waves_of Timing.waves_for Timing.entry Timing.waveforms Timing.table Timing.timing Timing.table_at Timing.wave_of Body.depth Body.marked Body.outside Body.in_shift Body.shifting Body.arg_of Body.supplied Body.turns Body.length_due Body.lengths_fit Body.fits Data.chars_of Data.stretched Data.repeat_of Data.times Data.repeated Data.piece Data.part Data.data_read Data.paired Data.assigned Data.assign Data.assigns Data.is_one Data.arg_for Data.argument Data.arguments Statements.numbered Statements.used Statements.chosen Statements.looping Statements.shift_head Statements.label_head Statements.head Statements.in_shift Statements.behind Statements.statements_f Statements.statements Statements.declared Document.one_body Document.bodies_of Document.one_macro Document.one_procedure Document.macro_defs Document.procedures Document.bodies Document.list_entry Document.burst Document.exec Document.besides Document.pattern Document.over Document.patterns Document.document_up_to Run.size Run.turns_of Run.shift_of Run.cycles Run.next Run.behind Run.taken Run.put Run.puts Run.changed Run.cycle_at Run.follow Run.again Run.bare Run.entering Run.playing Run.play Run.start Run.cycles_of Run.alone Run.visits Edges.belongs Edges.times_in Edges.first_of Edges.last_behind Edges.first_time Edges.last_time Edges.before Edges.apart Edges.follows Edges.events_of Edges.all_follow Edges.period_at Edges.in_order Edges.fine_behind Edges.failing_behind Edges.first_failing_pair Edges.listed_cycles Edges.first_among Edges.first_in_run Meaning.answering Meaning.run_of Meaning.has_wave Meaning.all_waves Meaning.playable Meaning.first_failing Meaning.firsts Meaning.fitting Meaning.ordered Meaning.judged Meaning.accept Meaning.meaning Services.counts Services.check Services.names_of Services.name_at Services.name_of Services.bad_mark Services.shown Services.shown_all Services.digit_of Services.row Services.rows Services.row_width Services.rows_due Services.width_of Services.window_rows Services.rows_out Services.window_of Services.window Services.bits_of Services.times_of Services.letters_of Services.events_out Services.waveform
everything = tt
