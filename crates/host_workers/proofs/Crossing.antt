-- What crosses between threads.
use denote.Param.Send.{IsSend, IsSync, recorded_send, recorded_sync, sendable, struct_send, struct_sync}
use denote.Struct.Declared.{shape}
use Rattle.std.proofs.Crossing.{crosses}
use Rattle.atomic_table.proofs.shared.Shared.TheSendSync as shared
use Rattle.atomic_table.proofs.shared.Seat.TheSendSync as seat
use Rattle.atomic_table.proofs.send_lease.SendLease.TheSendSync as lease
use Rattle.std.specs.contracts.alloc.Global as Global
use Rattle.quotient_coords.specs.contracts.space.Space as Space
use Rattle.script_text.specs.contracts.script.Script as Script
use Rattle.column_flight.specs.contracts.state.FlightState as FlightState
use Rattle.column_flight.specs.contracts.flights.Flights as Flights
use Rattle.split_versions.specs.contracts.state.VersionState as VersionState
use Rattle.split_versions.specs.contracts.versions.Versions as Versions
use Rattle.host_workers.specs.contracts.work.SpaceBoards as SpaceBoards
use Rattle.host_workers.specs.contracts.work.SessionWork as SessionWork

pub space-sync : IsSync Space.the_row
space-sync = search (sendable, crosses) depth 60 fits 100000

pub flights-send : IsSend FlightState.the_row
flights-send = search (sendable, crosses) depth 60 fits 100000

pub versions-send : IsSend VersionState.the_row
versions-send = search (sendable, crosses) depth 60 fits 100000

pub flights-sync : IsSync (Flights.the_field).row
flights-sync = search (flights-send, shared.the_sync, lease.the_sync, crosses, sendable) depth 60 fits 100000

pub versions-sync : IsSync (Versions.the_field).row
versions-sync = search (versions-send, shared.the_sync, lease.the_sync, crosses, sendable) depth 60 fits 100000

pub boards-field-sync : IsSync (SpaceBoards.the_field).row
boards-field-sync = struct_sync (shape SpaceBoards.the_type) (space-sync, (flights-sync, (versions-sync, tt)))

pub boards-sync : IsSync SpaceBoards.the_row
boards-sync = recorded_sync (SpaceBoards.the_field).row _ _ (SpaceBoards.the_type).to_one boards-field-sync

pub work-field-send : IsSend (SessionWork.the_field).row
work-field-send = struct_send (shape SessionWork.the_type) (
  search sendable,
  (
    search (flights-send, seat.the_send, crosses, sendable) depth 60 fits 100000,
    (search (versions-send, seat.the_send, crosses, sendable) depth 60 fits 100000, (search (crosses, sendable) depth 60 fits 100000, tt)),
  ),
)

pub work-send : IsSend SessionWork.the_row
work-send = recorded_send (SessionWork.the_field).row _ _ (SessionWork.the_type).to_one work-field-send

pub script-sync : IsSync Script.the_row
script-sync = search (crosses, sendable) depth 60 fits 100000

pub global-sync : IsSync Global.the_row
global-sync = search (crosses, sendable) depth 60 fits 100000
